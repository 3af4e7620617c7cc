pub mod Behind
pub mod Headers
pub mod Lengths
pub mod Apart
pub mod One
