pub mod Gathered
pub mod Lasting
pub mod Moment
