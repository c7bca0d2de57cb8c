pub mod Busy
pub mod Ended
pub mod Grants
pub mod Serving
pub mod Trackers
