pub mod Waits
pub mod Raises
