pub mod EventCover
pub mod EventFollowing
pub mod Following
pub mod WideCover
pub mod WideFollowing
pub mod WideRows
