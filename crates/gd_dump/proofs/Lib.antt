pub mod Steps
pub mod Runs
pub mod Taken
pub mod Written
pub mod Outcomes
pub mod Lines
