pub mod Splitting
pub mod Timing
