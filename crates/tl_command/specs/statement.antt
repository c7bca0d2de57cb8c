pub mod ChartWords
pub mod LibertyWords
pub mod RandomWords
pub mod SearchWords
pub mod Words
