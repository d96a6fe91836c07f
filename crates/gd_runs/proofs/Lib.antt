pub mod Plain
pub mod Asking
pub mod Rounds
mod rows
mod LineRows
mod TemplateRows
mod PositionRows
mod FitRows
mod BegunRows
mod WorkRows
mod ReplayRow
mod ExplainedRow
mod EventRows
mod LoadedRow
mod DoubtRow
pub mod LineMore
