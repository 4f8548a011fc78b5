pub mod Lines
pub mod Find
pub mod Asking
