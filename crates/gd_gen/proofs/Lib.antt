pub mod LineSteps
pub mod Parted
pub mod Results
mod Rows
