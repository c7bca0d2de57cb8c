pub mod Brought
pub mod Told
pub mod Witnesses
