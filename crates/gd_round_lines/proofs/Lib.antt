pub mod Some
pub mod Sets
pub mod Read
pub mod Lines
