pub mod Limits
pub mod Tests
pub mod Due
