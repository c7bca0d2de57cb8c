pub mod Drawing
pub mod Narrowing
pub mod Verdict
