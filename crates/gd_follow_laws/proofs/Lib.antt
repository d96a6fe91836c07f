pub mod Lists
pub mod Follows
