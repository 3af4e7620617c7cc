pub mod Each
pub mod Field
pub mod Kind
pub mod Languages
pub mod Unit
