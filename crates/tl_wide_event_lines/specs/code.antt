pub mod EventJudging
pub mod EventWatching
