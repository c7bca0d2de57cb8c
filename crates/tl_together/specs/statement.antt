pub mod Asked
pub mod Coherence
pub mod Knows
