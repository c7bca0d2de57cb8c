pub mod Answering
pub mod Examining
pub mod Explaining
pub mod Hearing
pub mod Reaching
pub mod Replaying
pub mod Testifying
pub mod Unexplained
