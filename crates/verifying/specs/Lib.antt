pub mod Verify
pub mod Within
