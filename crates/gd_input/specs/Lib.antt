pub mod Held
pub mod Line
pub mod Pieces
pub mod Rounds
pub mod Taken
