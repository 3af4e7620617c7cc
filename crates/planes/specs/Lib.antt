pub mod Planes
pub mod Loaded
