pub mod Both
pub mod Cuts
pub mod Lookups
pub mod Tables
pub mod Walks
