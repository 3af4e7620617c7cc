pub mod Sealings
pub mod Layout
pub mod Room
