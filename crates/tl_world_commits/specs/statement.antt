pub mod CommitConcord
pub mod Unbroken
pub mod WorldCommitRuns
pub mod WorldEvents
