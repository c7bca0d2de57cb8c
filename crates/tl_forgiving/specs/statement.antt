pub mod Forgiving
