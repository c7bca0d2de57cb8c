pub mod Others
pub mod Allowing
