pub mod Cells
pub mod Layouts
pub mod Numbered
mod Worked
