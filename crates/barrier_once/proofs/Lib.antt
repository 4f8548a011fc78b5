pub mod Opening
pub mod Visits
pub mod Walks
