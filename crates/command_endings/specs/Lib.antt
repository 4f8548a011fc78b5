pub mod Statuses
pub mod Changes
pub mod Messages
pub mod Endings
pub mod Printing
