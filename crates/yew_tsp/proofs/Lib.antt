mod Children
mod Counts
mod Dimensions
mod FileGrammar
mod FileLaws
mod FileReader
mod HeaderLines
mod HeaderParts
mod HeaderSteps
mod Kept
mod KeyValues
mod LastSteps
mod Leaves
mod Least
mod Lowest
mod MatrixWords
mod NumberSteps
pub mod Paths
mod Places
mod Rights
mod Surpluses
pub mod TreeIs
mod Weights
mod WithinLimits
mod Written
