pub mod Coming
pub mod Owing
pub mod Holding
pub mod Stepping
pub mod PassedOn
