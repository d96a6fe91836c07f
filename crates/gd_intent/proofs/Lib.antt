pub mod Before
pub mod Changes
pub mod Roots
pub mod Walks
