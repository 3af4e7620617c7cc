pub mod Computed
pub mod TableLaw
