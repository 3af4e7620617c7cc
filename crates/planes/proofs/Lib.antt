pub mod Column
pub mod Goes
pub mod Rows
pub mod Turned
pub mod Reading
pub mod Writing
