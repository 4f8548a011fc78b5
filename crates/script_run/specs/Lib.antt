pub mod Placing
pub mod Playing
pub mod Regions
pub mod Slots
