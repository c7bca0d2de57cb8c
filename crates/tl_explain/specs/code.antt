pub mod Chosen
pub mod Cuts
pub mod Recorded
pub mod Said
pub mod Saying
