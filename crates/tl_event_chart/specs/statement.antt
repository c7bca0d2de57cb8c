pub mod EventCharted
pub mod Noted
