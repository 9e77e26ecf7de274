pub mod Numbering
pub mod Calling
pub mod Tasks
pub mod Kinds
pub mod Told
pub mod Making
