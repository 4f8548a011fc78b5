pub mod Statuses
pub mod Words
pub mod Messages
pub mod Waits
pub mod Explore
