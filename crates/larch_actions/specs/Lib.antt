pub mod Sets
pub mod Rows
pub mod Layout
pub mod Actions
pub mod State
pub mod Takers
