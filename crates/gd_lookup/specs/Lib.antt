pub mod Found
pub mod Keeping
pub mod Calls
pub mod Laws
