pub mod Entries
pub mod Rest
