pub mod Sets
pub mod Shown
pub mod Answered
pub mod Names
pub mod Table
