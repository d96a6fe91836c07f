pub mod Window
pub mod Up
pub mod Pages
pub mod Laws
