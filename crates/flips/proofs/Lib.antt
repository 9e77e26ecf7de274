pub mod Gathered
pub mod Marked
pub mod Ordered
pub mod Tallied
pub mod Near
pub mod Chosen
pub mod Picked
