pub mod CommitSentences
pub mod Explained
pub mod Fronts
pub mod Unexplained
