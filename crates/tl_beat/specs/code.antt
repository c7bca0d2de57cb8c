pub mod Form
pub mod FromLeft
pub mod Reading
pub mod Writing
