pub mod Listing
pub mod Writing
pub mod Held
pub mod Builds
