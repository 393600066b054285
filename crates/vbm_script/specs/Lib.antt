pub mod Refusals
pub mod Parses
pub mod Places
pub mod Guests
