pub mod Spared
pub mod Evaluated
