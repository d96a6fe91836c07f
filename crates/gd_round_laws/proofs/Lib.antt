pub mod Passed
pub mod Rounds
pub mod Counts
