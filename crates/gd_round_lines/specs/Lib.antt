pub mod Some
pub mod Fresh
pub mod Replies
pub mod Works
pub mod Worked
