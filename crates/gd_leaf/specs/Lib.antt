pub mod Known
pub mod Leaf
pub mod Places
pub mod Rising
pub mod Sorted
