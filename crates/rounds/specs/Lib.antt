pub mod Tweakey
pub mod Cipher
