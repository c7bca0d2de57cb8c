pub mod FromLeft
pub mod Narrowing
pub mod Numbers
pub mod Reading
pub mod Writing
