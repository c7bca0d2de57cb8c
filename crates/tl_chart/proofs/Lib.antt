pub mod Continuing
pub mod Gathering
pub mod Granted
pub mod Lasting
pub mod Linked
pub mod Noting
pub mod Texts
mod Worked
