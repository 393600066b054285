pub mod Entry
pub mod Pending
pub mod Used
