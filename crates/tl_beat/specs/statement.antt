pub mod Control
pub mod Digits
pub mod First
pub mod Line
pub mod Names
pub mod Opcode
pub mod Width
