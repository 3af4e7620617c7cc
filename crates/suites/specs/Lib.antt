pub mod Answer
pub mod Refusal
pub mod Suite
pub mod Told
