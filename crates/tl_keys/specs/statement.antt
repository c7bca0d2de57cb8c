pub mod OneKey
pub mod Restricted
pub mod Rules
