pub mod Tally
pub mod Search
pub mod Code
