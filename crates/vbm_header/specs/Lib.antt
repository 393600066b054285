pub mod Field
pub mod Header
pub mod Written
