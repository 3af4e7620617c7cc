pub mod Common
pub mod Taken
pub mod Trigrams
pub mod Laws
