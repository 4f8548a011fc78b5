pub mod Finding
pub mod Explaining
pub mod Facing
