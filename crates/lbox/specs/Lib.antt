pub mod Lbox
pub mod Tables
pub mod Columns
