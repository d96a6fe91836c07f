pub mod Each
pub mod EitherWay
pub mod Ranked
pub mod Runs
