pub mod Followers
pub mod Following
pub mod Placing
pub mod Recording
pub mod Replaying
pub mod Responses
pub mod Stored
