pub mod Sorts
pub mod TreeRows
pub mod Printed
pub mod Pages
pub mod Laws
pub mod PassedOn
