pub mod Writer
pub mod History
pub mod Left
