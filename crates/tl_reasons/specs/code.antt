pub mod Answering
pub mod Examining
pub mod Explaining
pub mod Reaching
pub mod Replaying
pub mod Testifying
