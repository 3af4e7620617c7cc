pub mod Right
pub mod Joined
