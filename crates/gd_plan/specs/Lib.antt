pub mod Seen
pub mod Asked
pub mod Linked
pub mod Making
pub mod Planned
pub mod Subjects
pub mod PassedOn
