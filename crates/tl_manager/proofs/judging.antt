pub mod Judged
pub mod Judging
pub mod Refusing
pub mod Stalls
