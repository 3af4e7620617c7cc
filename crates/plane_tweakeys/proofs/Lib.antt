pub mod Rows
pub mod Ways
pub mod Schedule
