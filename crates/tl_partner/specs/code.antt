pub mod Cleanings
pub mod New
