pub mod Seals
pub mod Along
pub mod Tested
pub mod Verified
