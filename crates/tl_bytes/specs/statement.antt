pub mod Bytes
pub mod Early
pub mod Free
pub mod Known
pub mod KnownBytes
pub mod Lines
pub mod Shown
