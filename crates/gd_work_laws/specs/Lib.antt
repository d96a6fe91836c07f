pub mod Turns
pub mod Formed
pub mod Scan
pub mod Below
pub mod Reading
pub mod Sources
pub mod Laws
pub mod PassedOn
