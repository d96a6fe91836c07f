pub mod Cursor
pub mod Group
pub mod File
pub mod Disk
pub mod Frozen
pub mod FrozenRead
