pub mod Sessions
pub mod Held
pub mod Writes
pub mod Running
pub mod Opened
pub mod PassedOn
