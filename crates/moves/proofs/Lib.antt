pub mod Asked
pub mod Closing
pub mod Peels
pub mod Prunes
pub mod Flips
