mod Bounds
mod Children
mod FileGrammar
mod FileLaws
mod FileReader
mod FirstLeast
mod LaterTable
mod Leaves
mod Lowest
mod Paths
mod RankedPlaces
mod Rights
mod Rows
mod TimeSteps
pub mod TreeIs
mod WordJobs
mod Zeros
