pub mod Imports
pub mod blocks
pub mod calls
pub mod judging
pub mod messages
pub mod pending
pub mod services
pub mod words_of_clients
