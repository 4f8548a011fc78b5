pub mod Trees
pub mod Sums
pub mod Summary
pub mod Text
pub mod Lines
pub mod Listings
pub mod Reported
pub mod Shown
