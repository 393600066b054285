pub mod FileLists
pub mod FileNames
pub mod Outcomes
pub mod ByteLists
pub mod Crashes
pub mod Replays
pub mod Moments
