pub mod Guids
pub mod Keys
