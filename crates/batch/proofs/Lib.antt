pub mod Put
pub mod Headers
pub mod Texts
pub mod Enciphered
pub mod Known
pub mod Run
