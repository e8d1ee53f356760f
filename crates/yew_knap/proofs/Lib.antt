mod Adding
mod Apart
mod Breaking
mod Counts
pub mod FileGrammar
mod FileReader
mod Gains
mod Groups
mod ItemSteps
mod ItemWords
mod Leasts
mod Lines
mod Nexts
pub mod NumberWords
mod OrderIs
pub mod Packs
mod PlaceTable
mod Reciprocals
mod Rights
mod Triples
mod Wanted
mod Ways
