pub mod Added
pub mod Bars
pub mod Counted
pub mod Digits
