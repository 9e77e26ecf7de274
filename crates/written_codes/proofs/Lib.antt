pub mod Overlaps
pub mod Makes
