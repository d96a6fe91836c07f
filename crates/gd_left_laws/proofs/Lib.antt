pub mod Pages
pub mod Moves
pub mod Frames
pub mod Scans
pub mod Orders
pub mod Known
pub mod Laws
pub mod PassedOn
