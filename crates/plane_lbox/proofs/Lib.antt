pub mod Tree
pub mod Networks
pub mod Network
pub mod Tests
pub mod Layer
