pub mod Joined
pub mod Pieces
pub mod Upto
pub mod Known
