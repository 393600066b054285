pub mod Opened
pub mod Peek
