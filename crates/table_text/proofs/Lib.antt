pub mod Bytes
pub mod Examples
