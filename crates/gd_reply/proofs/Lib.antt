pub mod Printed
pub mod Texts
pub mod Several
pub mod Found
