pub mod Convicted
pub mod CopyLines
pub mod ResponseLines
pub mod SetLines
