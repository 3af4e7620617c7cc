pub mod Demand3
pub mod Fetched
pub mod Limits
pub mod Paged
pub mod Rules
