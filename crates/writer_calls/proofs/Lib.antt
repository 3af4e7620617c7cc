pub mod Put
pub mod Few
pub mod Answers
pub mod Handed
pub mod Brings
pub mod Left
