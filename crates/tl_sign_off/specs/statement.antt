pub mod Account
pub mod Junit
pub mod Message
pub mod Report
pub mod Sentence
pub mod Told
