pub mod Covered
pub mod EventCovered
pub mod Sums
pub mod Told
pub mod Tried
pub mod WideCovered
pub mod WideEventCovered
