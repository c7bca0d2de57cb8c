pub mod Accounted
pub mod After
pub mod Bytes
pub mod Held
pub mod Inside
pub mod Sound
