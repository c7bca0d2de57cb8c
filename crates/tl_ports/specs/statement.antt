pub mod Client
pub mod Manager
pub mod Waiting
