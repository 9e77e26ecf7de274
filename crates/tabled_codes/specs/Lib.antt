pub mod Rows
pub mod Laid
pub mod Held
pub mod Alike
