pub mod Machines
pub mod Modes
pub mod Slots
pub mod Running
