pub mod Fronts
pub mod Readings
pub mod Later
pub mod PassedOn
