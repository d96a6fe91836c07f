pub mod Told
pub mod Served
pub mod Reads
pub mod Fits
pub mod Writes
pub mod Tells
pub mod Joined
pub mod Counts
