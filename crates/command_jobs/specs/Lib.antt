pub mod Values
pub mod Lines
pub mod Jobs
pub mod JobLines
pub mod JobReading
