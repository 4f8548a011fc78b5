pub mod Columns
pub mod Drafts
pub mod Among
pub mod Files
pub mod Named
pub mod Ranks
pub mod RowPaths
