pub mod Config
pub mod Header
pub mod Liberties
pub mod Names
pub mod Param
pub mod Range
pub mod Refusal
