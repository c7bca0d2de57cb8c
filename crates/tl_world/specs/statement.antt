pub mod Answered
pub mod World
pub mod Places
