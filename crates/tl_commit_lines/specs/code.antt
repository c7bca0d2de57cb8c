pub mod EventWatching
pub mod HeadReading
