pub mod Stops
pub mod Kept
pub mod Lines
pub mod Replays
pub mod Runs
