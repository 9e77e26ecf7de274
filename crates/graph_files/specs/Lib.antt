pub mod Listed
pub mod Files
pub mod Held
pub mod Built
