pub mod Beginnings
pub mod DeliveriesDecrease
pub mod RankAfter
pub mod ReportDecreases
pub mod RequestDecreases
pub mod ResponseDecreases
pub mod Settling
