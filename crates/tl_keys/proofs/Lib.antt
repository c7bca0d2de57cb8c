pub mod Kept
pub mod Keys
pub mod PendingKeys
pub mod Lawful
pub mod Local
pub mod Named
pub mod Imports
