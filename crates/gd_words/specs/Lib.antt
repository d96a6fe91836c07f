pub mod Options
pub mod Parser
pub mod Spelling
pub mod Words
pub mod Verbs
