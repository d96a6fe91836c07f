pub mod Slots
pub mod Versions
