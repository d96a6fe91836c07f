pub mod Fault
pub mod Looks
pub mod Seen
pub mod Spoken
pub mod Walk
pub mod Words
pub mod PassedOn
