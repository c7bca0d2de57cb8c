pub mod Copies
pub mod Followed
pub mod LineShown
pub mod LinksFollowed
pub mod Numbers
pub mod Recorded
pub mod Replayed
pub mod Responses
pub mod Storied
pub mod Told
mod Worked
