pub mod Moves
pub mod Links
pub mod Under
pub mod Rows
pub mod Best
pub mod Walks
pub mod Laws
pub mod PassedOn
