pub mod Stores
pub mod Nodes
pub mod Moments
