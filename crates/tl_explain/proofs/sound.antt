pub mod Bursts
pub mod Keys
pub mod Messages
pub mod Openings
pub mod Rules
