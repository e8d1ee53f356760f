pub mod DepthCounts
pub mod DepthLaws
pub mod Kinds
pub mod TallyLaws
pub mod WrapperLaws
pub mod Wrappers
