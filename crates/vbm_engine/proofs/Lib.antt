mod Making
pub mod Openings
pub mod Serving
