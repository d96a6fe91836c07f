pub mod Appends
pub mod Gathers
pub mod Stopping
pub mod Reading
pub mod Restored
