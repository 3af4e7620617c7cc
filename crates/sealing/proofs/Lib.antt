pub mod Sealed
pub mod One
