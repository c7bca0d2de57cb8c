pub mod CommitsCounted
pub mod Covered
pub mod EventCounted
pub mod EventRows
pub mod Joined
pub mod Summed
pub mod Telling
pub mod TraceCounted
pub mod WideCounted
pub mod WideEventCounted
pub mod WideParts
pub mod WideRowed
mod Worked
