pub mod Undo
pub mod Inverse
