pub mod Block
pub mod Rows
pub mod State
