pub mod Calls
pub mod Walks
pub mod Cells
pub mod RoundLaws
pub mod Rounds
