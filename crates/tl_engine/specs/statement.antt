pub mod Charted
pub mod CommitsHeader
pub mod PlayableWorld
pub mod Played
pub mod Told
