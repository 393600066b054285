pub mod Serves
pub mod Steps
pub mod Opens
pub mod Inits
pub mod Recovers
pub mod Parts
