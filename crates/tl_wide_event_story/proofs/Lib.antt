mod CopyFollowed
mod Grounded
mod Guided
mod LinkRecorded
mod PartsMet
mod ResponsesGuided
mod Retold
mod Storied
