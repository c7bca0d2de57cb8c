pub mod WideExplained
pub mod WideNaming
