pub mod Ways
pub mod Whole
