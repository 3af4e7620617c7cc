pub mod Text
pub mod Under
