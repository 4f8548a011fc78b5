pub mod Sets
pub mod Order
pub mod Answers
pub mod Kept
pub mod Circles
