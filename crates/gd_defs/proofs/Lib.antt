mod WordRows
mod PropertyRows
pub mod Directives
