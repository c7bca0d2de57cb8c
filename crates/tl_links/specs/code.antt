pub mod Allowing
