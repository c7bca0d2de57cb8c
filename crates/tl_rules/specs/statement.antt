pub mod Admission
pub mod Conformance
pub mod Effect
pub mod History
pub mod Legality
pub mod Liberties
pub mod Windows
pub mod OpenMessages
