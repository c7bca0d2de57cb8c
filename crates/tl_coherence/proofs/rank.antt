pub mod Frames
pub mod RankDecreases
pub mod RankParts
pub mod Weights
