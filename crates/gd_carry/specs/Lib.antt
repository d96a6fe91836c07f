pub mod Printed
pub mod Outcome
pub mod Exec
pub mod Depth
pub mod Lead
pub mod PassedOn
