pub mod Draws
pub mod Lines
pub mod Replies
pub mod Summary
