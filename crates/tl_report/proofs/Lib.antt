pub mod Counted
pub mod Handled
pub mod KeptLines
pub mod Searched
pub mod Variants
pub mod Verdict
pub mod WideEventTaken
pub mod WideTaken
