pub mod Keys
pub mod Rules
