pub mod Accesses
pub mod Beginnings
pub mod Responses
pub mod Told
pub mod WholeStores
pub mod WritesBeside
