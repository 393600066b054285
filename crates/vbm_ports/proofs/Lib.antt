pub mod Appends
pub mod Counting
pub mod NameLemmas
pub mod Puts
pub mod States
