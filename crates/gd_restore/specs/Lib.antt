pub mod Stops
pub mod Dumps
pub mod Gathered
pub mod Restores
