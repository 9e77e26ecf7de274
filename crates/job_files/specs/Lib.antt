pub mod Faults
pub mod Sides
pub mod Parts
pub mod Files
