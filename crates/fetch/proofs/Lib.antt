pub mod Handed
pub mod Units
pub mod Cut
pub mod Written
pub mod Reached
pub mod Arrived
pub mod Exact
pub mod Any
