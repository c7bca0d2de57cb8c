pub mod OpenWindows
pub mod Run
pub mod TrueBytes
pub mod Windowed
