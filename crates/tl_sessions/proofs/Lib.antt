pub mod Called
pub mod Openings
pub mod Refused
pub mod WideMade
pub mod WideParts
pub mod WideTold
