pub mod Chart
pub mod Drawn
pub mod Messages
pub mod Names
pub mod Picture
pub mod Words
