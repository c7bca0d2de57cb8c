pub mod Carried
pub mod Possible
pub mod Tellings
