pub mod Cleaning
pub mod Dropping
pub mod Granting
pub mod Lenient
pub mod Naming
pub mod Partner
