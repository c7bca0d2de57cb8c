pub mod Burst
pub mod Messages
pub mod Part
pub mod Written
