pub mod Answered
pub mod ChartedBeats
pub mod ChartedLines
pub mod Committed
pub mod Played
mod PlayedOnce
pub mod Playing
pub mod SaidLines
pub mod ShortHeaders
pub mod SoFar
mod Told
mod TraceClean
mod TraceCoherent
pub mod TraceQuiet
pub mod Writable
