pub mod Answering
pub mod Behind
pub mod Held
pub mod Naming
pub mod Targets
pub mod Updating
