pub mod bound
pub mod protocol
pub mod refinement
pub mod statement
