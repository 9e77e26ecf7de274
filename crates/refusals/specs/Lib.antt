pub mod Questions
pub mod Outputs
