pub mod Meaning
pub mod Held
pub mod Replays
pub mod Opens
pub mod Absorbs
pub mod Fronts
pub mod Early
