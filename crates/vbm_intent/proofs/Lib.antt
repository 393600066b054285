mod Allowed
mod Apart
pub mod Applying
pub mod Commits
mod FilePartly
pub mod Fills
mod Fitting
mod Indexed
mod Members
mod Names
mod Notes
mod Ordered
mod Places
pub mod Pushes
mod Records
pub mod Redos
mod Sets
pub mod Starts
pub mod TornLog
mod Unread
mod Walks
pub mod Wholes
