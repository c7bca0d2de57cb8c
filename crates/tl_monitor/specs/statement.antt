pub mod Count
pub mod Granting
pub mod Knows
pub mod Numbers
pub mod Reporting
