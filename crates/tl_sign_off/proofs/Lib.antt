pub mod Counted
pub mod Named
pub mod Noted
pub mod Reported
pub mod Said
pub mod Told
pub mod Whole
