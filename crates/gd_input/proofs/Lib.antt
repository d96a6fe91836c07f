pub mod Returns
pub mod Buffers
pub mod Newlines
pub mod Reading
pub mod Gathering
pub mod Taken
