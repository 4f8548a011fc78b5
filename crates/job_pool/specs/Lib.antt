pub mod Crews
pub mod Jobs
pub mod Batches
pub mod Slots
pub mod Stopping
pub mod Working
