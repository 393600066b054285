pub mod Decisions
pub mod Planned
pub mod Pushing
pub mod Readiness
pub mod Keeping
pub mod Turning
mod PlacesUsed
pub mod Listing
pub mod Marks
pub mod PutMedia
pub mod GoneMedia
pub mod Edits
pub mod Reading
