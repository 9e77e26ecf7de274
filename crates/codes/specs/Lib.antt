pub mod Layouts
pub mod Exchanging
pub mod Baring
pub mod Sounds
pub mod Shorts
