pub mod Answers
pub mod Demand2
pub mod Opened
