pub mod Asks
pub mod Calls
pub mod Offers
pub mod Past
pub mod Rules
