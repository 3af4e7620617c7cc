pub mod Lboxes
pub mod Printed
pub mod Rule
