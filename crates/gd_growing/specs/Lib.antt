pub mod State
pub mod Scan
pub mod Facts
pub mod Seen
pub mod Carried
