pub mod Sets
pub mod Patterns
pub mod Hex
