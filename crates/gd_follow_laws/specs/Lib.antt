pub mod Given
pub mod World
