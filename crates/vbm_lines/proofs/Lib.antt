pub mod Readers
pub mod Runs
pub mod Spelled
pub mod Splits
pub mod Unhex
pub mod Windows
