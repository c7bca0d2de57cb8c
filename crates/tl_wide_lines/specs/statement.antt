pub mod Behind
pub mod JudgedTrace
pub mod PartFaults
pub mod WideDecoded
pub mod WideHeader
pub mod WideText
