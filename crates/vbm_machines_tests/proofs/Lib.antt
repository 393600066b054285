pub mod TrialPlaces
