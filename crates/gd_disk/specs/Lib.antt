pub mod Recorded
pub mod Calls
pub mod Images
pub mod Laws
pub mod Shelved
pub mod FileShelf
pub mod Runs
