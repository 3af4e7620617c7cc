pub mod Pages
pub mod Done
pub mod Written
pub mod Examples
