pub mod Tweak
pub mod TweakBits
pub mod Calls
pub mod Sealing
pub mod Pieces
