pub mod Sound
pub mod Fits
pub mod Values
pub mod Laws
