pub mod Seal
pub mod Passes
