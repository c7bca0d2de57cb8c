pub mod Lessons
mod Stories
mod WideExplaining
pub mod WideReplaying
