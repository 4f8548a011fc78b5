pub mod Refusals
pub mod Decided
