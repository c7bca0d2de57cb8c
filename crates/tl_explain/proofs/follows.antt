pub mod Keys
pub mod Saying
pub mod Links
