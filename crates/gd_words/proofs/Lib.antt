pub mod Counted
pub mod Numbers
pub mod Short
pub mod Spelled
pub mod Steps
pub mod Walks
mod WordRows
