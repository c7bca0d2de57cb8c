pub mod WideEventsExplained
pub mod WideGrounds
