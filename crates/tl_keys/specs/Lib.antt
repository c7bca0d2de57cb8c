pub mod statement
