pub mod Found
pub mod Accepted
