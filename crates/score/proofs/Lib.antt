pub mod Laws
pub mod Examples
pub mod Quotients
pub mod Scores
