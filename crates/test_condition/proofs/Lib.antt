pub mod Freeing
pub mod Playing
pub mod Placing
