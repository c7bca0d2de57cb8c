pub mod code
pub mod statement
