pub mod Told
pub mod Paged
pub mod Explained
pub mod Laws
