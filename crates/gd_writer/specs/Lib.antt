pub mod ChangeCode
pub mod Carried
pub mod Entries
pub mod Outcomes
pub mod Parts
pub mod Side
pub mod Judged
pub mod Opened
