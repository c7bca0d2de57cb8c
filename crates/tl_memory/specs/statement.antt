pub mod BlockMap
pub mod Blocks
pub mod ByteChanges
pub mod Expecting
pub mod Known
pub mod Links
pub mod Memory
