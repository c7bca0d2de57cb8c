pub mod Alone
pub mod Firsts
pub mod Places
pub mod Rows
pub mod Sending
