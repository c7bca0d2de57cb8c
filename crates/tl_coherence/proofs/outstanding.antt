pub mod Counted
pub mod Movement
pub mod OpenKinds
pub mod Outstanding
pub mod Progress
