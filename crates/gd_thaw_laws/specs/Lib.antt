pub mod Thawing
pub mod Gone
pub mod Grown
pub mod Freezing
pub mod Alone
pub mod Told
pub mod Spelled
pub mod Standing
