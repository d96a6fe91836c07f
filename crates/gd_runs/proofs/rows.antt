-- The worked rows of rows/, written by tools/row.py.
mod Family
mod Forms
mod Keys
mod Kinds
mod Languages
mod Lines
mod Meanings
mod Pages
mod Properties
mod Reading
mod Several
mod Versions
mod Writing
