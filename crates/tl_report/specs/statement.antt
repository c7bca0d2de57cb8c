pub mod Form
pub mod Found
pub mod Said
pub mod Taken
