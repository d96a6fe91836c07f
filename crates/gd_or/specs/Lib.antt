pub mod Or
pub mod Union
pub mod Without
