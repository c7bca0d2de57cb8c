pub mod ChartReading
pub mod ClientReading
pub mod LibertyReading
