pub mod CommitReading
pub mod FromLeft
