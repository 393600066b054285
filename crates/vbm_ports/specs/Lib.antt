pub mod Files
pub mod Names
pub mod Counts
pub mod Crash
pub mod Disk
pub mod Stream
