pub mod Flips
pub mod Held
pub mod Local
