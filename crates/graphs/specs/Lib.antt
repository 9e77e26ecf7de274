pub mod Tanners
pub mod Turning
pub mod Cycles
pub mod Shifts
pub mod Rotations
pub mod Turns
pub mod Shorts
