pub mod Acknowledged
pub mod Ending
pub mod FromInvariant
pub mod Granting
pub mod HeadsOfLinks
