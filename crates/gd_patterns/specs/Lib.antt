pub mod Patterns
pub mod Stops
