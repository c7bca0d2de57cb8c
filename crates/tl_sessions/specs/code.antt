pub mod WideJudging
