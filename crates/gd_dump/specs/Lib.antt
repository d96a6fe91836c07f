pub mod Stop
pub mod Progress
pub mod Read
pub mod Sent
