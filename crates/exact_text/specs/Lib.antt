pub mod Codes
pub mod Reading
pub mod Prefixes
pub mod Unfolds
pub mod Intake
pub mod Exact
pub mod Long
