pub mod Tweakeys
