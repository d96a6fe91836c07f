pub mod Fault
pub mod Thawing
pub mod Thawed
pub mod Held
pub mod PassedOn
