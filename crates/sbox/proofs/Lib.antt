pub mod Circuit
pub mod Listings
pub mod Inverses
pub mod Columns
pub mod Words
