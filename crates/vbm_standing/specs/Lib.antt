pub mod Headers
pub mod ChainDisks
pub mod Meaning
pub mod Faults
pub mod Stands
pub mod Edits
pub mod EditedFiles
pub mod SlotSectors
