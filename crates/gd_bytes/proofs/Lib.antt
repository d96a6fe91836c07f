pub mod CursorLaws
mod CursorRows
mod FileRows
mod FrozenRows
