pub mod Room
pub mod First
