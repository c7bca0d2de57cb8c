pub mod Charting
pub mod Playing
