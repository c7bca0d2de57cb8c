pub mod Imports
pub mod lawful
pub mod messages
pub mod Plain
pub mod states
pub mod values
