pub mod Runs
pub mod Exact
pub mod Accepts
