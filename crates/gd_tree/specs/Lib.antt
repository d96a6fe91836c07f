pub mod Hex
pub mod Json
pub mod Look
pub mod JsonCode
pub mod Trees
pub mod Bounds
