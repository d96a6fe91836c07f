pub mod Dump
pub mod Reading
pub mod Progress
pub mod Dumping
pub mod Restoring
