pub mod Trigrams
pub mod Read
pub mod Taken
pub mod Laws
