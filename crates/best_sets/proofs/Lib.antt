pub mod Steps
pub mod Walks
pub mod Ranked
pub mod Kept
pub mod Laws
pub mod Rises
