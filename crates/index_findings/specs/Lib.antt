pub mod Pieces
pub mod Visits
pub mod ReadFiles
pub mod Faults
pub mod Gathered
pub mod Rest
