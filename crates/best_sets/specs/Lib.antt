pub mod Best
pub mod Rising
pub mod Walk
