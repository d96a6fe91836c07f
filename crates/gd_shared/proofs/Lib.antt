pub mod Fronts
pub mod Groups
pub mod Table
pub mod Pending
