mod Arcs
mod BitLaws
mod CandidateLaws
pub mod Chosen
mod FileGrammar
mod FileReader
mod FileSteps
mod KidLaws
pub mod MapTree
mod NextLaws
mod OrderIs
mod Orders
mod PairTables
mod Pigeons
mod PlaceLaws
mod Ranges
mod Rights
mod TableLaws
mod WordLaws
