mod AllowedLines
pub mod ByProfile
