pub mod Beside
pub mod BesideAsked
pub mod BesideKinds
pub mod BesideRequests
pub mod BesideTaken
pub mod OneMemory
