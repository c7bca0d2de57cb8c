pub mod Begun
pub mod Written
