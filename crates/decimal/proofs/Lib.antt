pub mod Digits
pub mod AtStart
