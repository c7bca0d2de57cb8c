pub mod Commits
pub mod CommonLine
pub mod EventLine
pub mod OutcomeLine
pub mod Schedule
