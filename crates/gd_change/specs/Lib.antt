pub mod Fault
pub mod PassedOn
