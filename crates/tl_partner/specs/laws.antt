pub mod Carried
pub mod Judged
pub mod Offers
pub mod Without
