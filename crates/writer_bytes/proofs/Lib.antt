pub mod Fronts
pub mod RoundTrip
