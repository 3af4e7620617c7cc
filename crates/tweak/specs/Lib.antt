pub mod Made
pub mod TweakLaw
pub mod Examples
