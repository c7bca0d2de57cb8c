pub mod BeatLines
pub mod Cached
pub mod Explained
pub mod Grounds
pub mod Numbered
pub mod Words
