pub mod CommitLine
pub mod EventLine
pub mod Names
