pub mod AsBefore
pub mod EventsJudged
pub mod JudgedLines
pub mod JudgedOnce
pub mod HeaderLinks
pub mod MarkedHeaders
pub mod Pushed
