pub mod Chains
pub mod Tallies
pub mod Steps
