mod Splitting
mod Timing
