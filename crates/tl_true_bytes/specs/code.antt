pub mod Beside
pub mod Like
