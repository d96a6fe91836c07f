pub mod Pushed
pub mod Again
pub mod Made
pub mod Fitting
pub mod Deep
pub mod Whole
pub mod Counts
pub mod Leafed
