pub mod Answers
pub mod Counts
pub mod Text
pub mod Order
