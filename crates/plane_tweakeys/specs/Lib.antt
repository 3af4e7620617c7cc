pub mod Shared
pub mod PlaneRows
