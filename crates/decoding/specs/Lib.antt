pub mod Decodings
pub mod Files
