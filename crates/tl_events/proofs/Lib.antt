pub mod CommitFaults
pub mod CommitLines
pub mod CommitSpelled
pub mod EventLines
pub mod Pieces
