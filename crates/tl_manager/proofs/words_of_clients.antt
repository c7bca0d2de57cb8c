pub mod Clients
pub mod Counts
pub mod Free
pub mod Lists
pub mod Masks
pub mod WordBits
pub mod Words
