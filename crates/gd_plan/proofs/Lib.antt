pub mod Fronts
pub mod Languages
pub mod Members
pub mod Planned
pub mod PassedOn
