pub mod Faults
pub mod WriteFaults
pub mod Spelled
pub mod SpelledChange
pub mod Laws
