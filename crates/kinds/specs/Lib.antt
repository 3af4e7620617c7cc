pub mod Kind
pub mod Lengths
