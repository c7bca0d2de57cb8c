pub mod Pending
pub mod Rules
pub mod Waiting
