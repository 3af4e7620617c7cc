pub mod Passed
pub mod Order
