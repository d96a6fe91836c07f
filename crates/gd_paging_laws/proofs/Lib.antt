pub mod Bytes
pub mod Told
pub mod Lines
pub mod Marks
pub mod Joined
pub mod Bounds
pub mod Whole
pub mod Going
pub mod Within
pub mod Queries
pub mod Shown
mod PagesRow
pub mod Laws
