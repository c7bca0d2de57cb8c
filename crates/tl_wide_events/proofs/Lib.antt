mod CommitFaults
mod CommitNames
pub mod EventLines
mod HalvedLines
mod NarrowedCommits
mod Worked
