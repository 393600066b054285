pub mod Names
pub mod Keyed
pub mod Places
