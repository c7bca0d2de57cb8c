pub mod Choose
pub mod Draw
pub mod Drawn
pub mod Random
pub mod Said
