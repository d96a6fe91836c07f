pub mod KeysStep
pub mod Insertion
pub mod Seen
pub mod Defined
pub mod Pages
pub mod Objects
pub mod Past
