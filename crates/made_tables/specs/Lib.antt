pub mod Makes
pub mod Boxes
