pub mod FirstFault
pub mod HeadReading
pub mod ShortLine
pub mod WideDecoding
pub mod WideJudging
pub mod WideWatching
