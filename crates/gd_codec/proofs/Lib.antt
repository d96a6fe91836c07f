pub mod Stops
mod Values
mod Primitives
mod Batches
mod Writing
pub mod Meaning
