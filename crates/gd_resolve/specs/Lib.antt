pub mod Found
pub mod Asked
pub mod Way
pub mod PassedOn
