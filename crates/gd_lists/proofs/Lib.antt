pub mod Each
pub mod Entries
pub mod Table
pub mod Last
