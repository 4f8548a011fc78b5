pub mod Numbers
pub mod Parts
pub mod Passing
pub mod Reading
pub mod Rounds
pub mod Waking
pub mod Workloads
