pub mod BeatsInFlight
pub mod Bounded
pub mod CarriedEvents
pub mod Fresh
pub mod Moved
pub mod Owned
pub mod SizedAfter
