pub mod LBox
