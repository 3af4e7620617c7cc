pub mod Open
pub mod Demand2
