pub mod Concord
pub mod TrueWorlds
pub mod WorldRuns
