pub mod Blocks
pub mod RoundTrips
pub mod Heads
pub mod Rowing
