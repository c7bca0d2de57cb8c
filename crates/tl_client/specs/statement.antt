pub mod Answer
pub mod Ask
pub mod Endpoint
pub mod EndpointInvariant
pub mod Fault
pub mod Offer
pub mod Requests
pub mod Send
