pub mod Page
pub mod Units
pub mod Examples
