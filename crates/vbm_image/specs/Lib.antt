pub mod Image
pub mod Images
pub mod Lending
pub mod Opened
pub mod InnerName
pub mod Creating
pub mod Staging
pub mod Settling
