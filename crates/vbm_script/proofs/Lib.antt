pub mod Spaces
mod Forms
mod Marks
mod Modifications
mod Clones
mod HexDigits
mod Writes
