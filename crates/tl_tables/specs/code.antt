pub mod Grid
pub mod Walk
