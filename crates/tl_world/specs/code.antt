pub mod Agents
pub mod Called
pub mod Carrying
pub mod Holds
pub mod Opened
