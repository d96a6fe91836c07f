pub mod Asks
pub mod Node
