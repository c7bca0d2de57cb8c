pub mod Commits
pub mod Each
pub mod Made
pub mod Rows
