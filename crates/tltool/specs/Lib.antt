pub mod Covered
pub mod Ended
pub mod Reported
pub mod Timed
