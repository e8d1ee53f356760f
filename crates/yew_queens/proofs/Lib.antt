pub mod Columns
pub mod Counted
pub mod Peaceful
pub mod RowCounts
