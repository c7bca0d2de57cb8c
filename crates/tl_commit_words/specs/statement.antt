pub mod CommitWords
