pub mod Asked
pub mod Hits
pub mod Laws
pub mod Line
pub mod Right
pub mod Shown
