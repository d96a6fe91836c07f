pub mod Owed
pub mod Rising
pub mod Sieved
pub mod Positions
