pub mod JudgedEvents
pub mod MarkedHeader
