pub mod Made
pub mod Deep
