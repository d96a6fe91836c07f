pub mod Groups
pub mod State
pub mod Opening
pub mod Stored
pub mod Writable
