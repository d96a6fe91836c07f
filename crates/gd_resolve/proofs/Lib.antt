pub mod Costs
pub mod Counted
pub mod Languages
pub mod Lefts
pub mod Long
pub mod Scans
pub mod Ways
