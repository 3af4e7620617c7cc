pub mod Check
pub mod Exact
