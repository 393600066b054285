mod Creating
mod Asks
mod Closes
mod Registers
