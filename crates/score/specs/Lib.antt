pub mod Score
pub mod Laws
pub mod Examples
