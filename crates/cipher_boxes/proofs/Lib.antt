pub mod Law
pub mod FirstState
