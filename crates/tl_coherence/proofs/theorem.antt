pub mod AccessEnds
pub mod Continuing
pub mod LoneAcquireEnds
pub mod Performed
pub mod Soundness
pub mod Whole
