pub mod Behind
pub mod Line
