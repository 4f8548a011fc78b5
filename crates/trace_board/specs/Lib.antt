pub mod Marks
pub mod History
pub mod Awaited
pub mod Causes
pub mod Rows
pub mod Holds
pub mod Tracked
pub mod Laws
