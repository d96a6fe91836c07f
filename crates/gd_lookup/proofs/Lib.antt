pub mod Right
pub mod Datelines
pub mod Counted
pub mod Calls
