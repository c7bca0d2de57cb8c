pub mod Invariant
pub mod Packet
pub mod Phase
pub mod PhaseSteps
pub mod Protocol
pub mod Tokens
