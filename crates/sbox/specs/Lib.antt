pub mod Sbox
pub mod Circuit
pub mod Equations
pub mod Words
