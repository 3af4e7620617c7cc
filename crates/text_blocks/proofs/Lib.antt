pub mod Chunks
pub mod Parts
