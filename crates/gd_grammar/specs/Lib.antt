pub mod Chain
pub mod Maybe
pub mod Grammar
pub mod Choice
pub mod Mark
pub mod Reading
pub mod Options
