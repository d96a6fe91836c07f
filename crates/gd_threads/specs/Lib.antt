pub mod Served
pub mod Rounds
pub mod Working
pub mod PassedOn
