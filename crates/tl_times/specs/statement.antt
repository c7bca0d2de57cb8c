pub mod Pieces
pub mod Timed
