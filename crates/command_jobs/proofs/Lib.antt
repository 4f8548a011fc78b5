pub mod Sums
pub mod Ran
pub mod Ended
pub mod Due
pub mod Places
pub mod JobTexts
