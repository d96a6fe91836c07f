pub mod Values
pub mod Ranked
pub mod Runs
