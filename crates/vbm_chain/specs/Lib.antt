pub mod Settled
pub mod Resolved
pub mod Links
