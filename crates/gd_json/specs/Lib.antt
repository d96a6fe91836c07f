pub mod View
pub mod Tokens
pub mod Reading
pub mod Bounded
pub mod Text
