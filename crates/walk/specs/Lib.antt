pub mod Walk
pub mod Ciphertext
pub mod Clear
