pub mod Same
pub mod Splitting
pub mod Whole
pub mod Lanes
pub mod Begun
pub mod Bits
pub mod ControlFields
