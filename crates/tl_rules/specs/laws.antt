pub mod Handed
pub mod Typed
