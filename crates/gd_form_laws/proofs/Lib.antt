pub mod First
pub mod Queries
pub mod Changes
pub mod Clauses
pub mod ClauseHeads
pub mod Nesting
pub mod Entries
pub mod ChangeNesting
