pub mod Seal
pub mod Parts
pub mod Reading
