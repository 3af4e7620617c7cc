pub mod Few
pub mod Ciphered
pub mod PutBack
