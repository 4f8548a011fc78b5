pub mod Paths
pub mod Sent
pub mod Numbers
