pub mod Sums
pub mod Ranges
pub mod Counts
pub mod Marks
