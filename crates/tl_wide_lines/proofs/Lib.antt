mod AsBefore
pub mod Decoded
pub mod FirstFaults
pub mod JudgedLines
mod JudgedOnce
mod NumberedNames
pub mod PartsJudged
mod ShortLines
pub mod TraceJudged
pub mod WideHeaders
mod WideTexts
mod Worked
