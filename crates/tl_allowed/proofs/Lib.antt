pub mod Within
pub mod Wider
pub mod Words
