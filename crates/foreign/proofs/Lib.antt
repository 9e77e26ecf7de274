pub mod Making
pub mod Doing
pub mod Lengths
