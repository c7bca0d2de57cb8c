pub mod ChartLines
mod ClientWords
mod LibertyNames
pub mod LibertyWords
mod NumberWords
pub mod RandomOptions
