pub mod SlotsNamed
pub mod TakenNamed
pub mod RemovedNamed
pub mod TreesKept
pub mod MediaNamed
