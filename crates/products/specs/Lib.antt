pub mod Pairs
pub mod Products
pub mod Evens
pub mod Pairing
pub mod Blocks
pub mod Sides
pub mod Steps
