pub mod Ordered
pub mod Planned
pub mod Laws
pub mod PassedOn
