pub mod Headers
pub mod Limits
pub mod Options
pub mod Refusals
pub mod UpTo
