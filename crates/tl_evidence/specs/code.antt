pub mod Following
pub mod Guilty
pub mod Responding
