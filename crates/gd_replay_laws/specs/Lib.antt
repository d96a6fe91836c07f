pub mod Steps
pub mod Runs
pub mod Paced
pub mod Faults
pub mod Laws
