pub mod Strays
pub mod Witness
