pub mod Joined
pub mod Below
pub mod Whole
pub mod Bounds
pub mod Plain
pub mod Faults
pub mod Words
pub mod Paced
