pub mod Control
pub mod Excused
pub mod Merge
pub mod Open
pub mod Place
pub mod Tables
