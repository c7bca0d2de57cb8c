pub mod Counts
pub mod Layout
pub mod Numbered
pub mod Tables
