pub mod AsBefore
pub mod EventsJudged
pub mod JudgedLines
mod JudgedOnce
pub mod TraceJudged
pub mod WideMarkedHeaders
