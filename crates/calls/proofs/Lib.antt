pub mod Tweaks
pub mod TweakBits
pub mod Distinct
pub mod Strung
pub mod ByBlocks
pub mod Exact
