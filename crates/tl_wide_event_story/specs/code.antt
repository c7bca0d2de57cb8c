pub mod Guiding
pub mod Retelling
