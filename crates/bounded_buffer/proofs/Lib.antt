pub mod Alone
pub mod Ending
pub mod Opening
pub mod Using
