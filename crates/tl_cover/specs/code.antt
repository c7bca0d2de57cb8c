pub mod Covering
pub mod Groups
pub mod Open
pub mod Past
