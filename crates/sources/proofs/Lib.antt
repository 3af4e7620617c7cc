pub mod Text
pub mod Opened
