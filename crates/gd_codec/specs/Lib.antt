pub mod Stop
pub mod Groups
pub mod Writable
