pub mod Fetch
pub mod Hands
pub mod Exact
pub mod Any
