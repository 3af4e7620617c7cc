pub mod Windows
pub mod Apart
pub mod Answers
