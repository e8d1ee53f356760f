pub mod Clipping
pub mod DepthFolds
pub mod JoinedCounts
