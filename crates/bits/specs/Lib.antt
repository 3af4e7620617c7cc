pub mod Bit
pub mod Bytes
pub mod Table
