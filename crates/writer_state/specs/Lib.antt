pub mod Writer
pub mod Tests
