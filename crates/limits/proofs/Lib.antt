pub mod Bounds
pub mod Order
pub mod Passed
pub mod Told
