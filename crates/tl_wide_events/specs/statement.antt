pub mod Narrowed
pub mod Narrowing
pub mod WideCommitLine
pub mod WideEventLine
