pub mod CommitRun
pub mod KeptCopies
pub mod TrueEvents
