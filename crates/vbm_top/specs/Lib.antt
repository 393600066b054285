pub mod Run
pub mod Statuses
pub mod Streams
pub use Rattle.vbm_ports.specs.Files
pub use Rattle.vbm_ports.specs.Disk
pub use Rattle.vbm_ports.specs.Counts
pub mod Script
pub mod Turns
