pub mod ReportedLaws
pub mod PieceLaws
pub mod ReadFileLaws
pub mod CoverLaws
pub mod OnceLaws
pub mod VisitLaws
pub mod RestLaws
pub mod GatherLaws
