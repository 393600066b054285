pub mod Creates
pub mod Registers
pub mod Closes
