pub mod SampleWalk
pub mod Placed
pub mod Ends
pub mod LineLemmas
pub mod PathNumbers
pub mod EntryLemmas
pub mod ReportedLemmas
pub mod Failing
