pub mod Answered
pub mod Apart
pub mod Awaited
pub mod Changed
pub mod Counted
pub mod Groups
pub mod Links
pub mod Lists
pub mod OpenSources
pub mod Pasts
pub mod Rows
pub mod Scenes
mod Worked
