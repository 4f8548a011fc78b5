pub mod Walk
pub mod Found
pub mod Kinds
pub mod Listings
pub mod TreeIndex
pub mod Closing
pub mod Progress
pub mod Pile
