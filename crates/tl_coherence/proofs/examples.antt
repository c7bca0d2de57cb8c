pub mod AccessRows
pub mod Checks
pub mod FollowChecks
pub mod Holding
pub mod Play
