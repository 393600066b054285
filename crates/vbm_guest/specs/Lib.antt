pub mod Runs
pub mod Edited
pub mod Parts
pub mod RunEntries
pub mod Memory
pub mod Flushing
pub mod Preparing
pub mod Writing
