pub mod Answered
pub mod Slices
