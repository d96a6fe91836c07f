pub mod Gives
pub mod Answered
pub mod Plain
pub mod Grown
pub mod Runs
pub mod Ends
pub mod Primary
