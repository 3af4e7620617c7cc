pub mod Fills
pub mod Limits
pub mod Law
pub mod Examples
