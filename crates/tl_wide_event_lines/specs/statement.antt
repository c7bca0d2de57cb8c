pub mod EventFaults
pub mod JudgedWideEvents
pub mod WideMarkedHeader
