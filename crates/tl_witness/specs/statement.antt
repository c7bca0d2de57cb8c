pub mod Grounds
pub mod Naming
pub mod Strays
