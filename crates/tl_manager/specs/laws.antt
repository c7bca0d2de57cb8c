pub mod After
pub mod Pending
pub mod Record
