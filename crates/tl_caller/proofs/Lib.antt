pub mod Bounds
pub mod Lone
pub mod Promises
