pub mod Members
pub mod Steps
pub mod Unions
pub mod Differences
