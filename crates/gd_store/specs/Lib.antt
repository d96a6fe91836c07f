pub mod Indexed
pub mod Keys
pub mod Lefts
pub mod Scan
pub mod Short
pub mod Stored
pub mod Valued
pub mod Viewed
