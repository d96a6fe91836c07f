pub mod Session
pub mod Calls
pub mod PassedOn
