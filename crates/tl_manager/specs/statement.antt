pub mod Reaction
pub mod End
pub mod Handing
pub mod Holders
pub mod Offer
pub mod Request
pub mod Service
