pub mod Folders
pub mod Events
pub mod Laws
pub mod MemDisk
pub mod Past
pub mod Streams
