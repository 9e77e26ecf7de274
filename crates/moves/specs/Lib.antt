pub mod Jobs
pub mod Moves
pub mod Held
