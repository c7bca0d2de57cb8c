pub mod Owned
pub mod Taking
