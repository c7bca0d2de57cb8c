pub mod Renamed
pub mod Renaming
pub mod Together
pub mod WideRenaming
pub mod Widened
