pub mod Matrix
pub mod Inverses
pub mod Columns
pub mod Made
