pub mod Renumbering
pub mod Slots
pub mod Snapshots
pub mod Holders
