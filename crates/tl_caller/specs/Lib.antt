pub mod Alone
pub mod Promised
