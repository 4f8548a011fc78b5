pub mod Ended
pub mod Due
pub mod Asked
