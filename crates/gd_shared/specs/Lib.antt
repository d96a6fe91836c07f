pub mod History
pub mod Published
pub mod Shared
