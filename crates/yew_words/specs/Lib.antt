pub mod Word
pub mod Table
pub mod Plans
pub mod Offences
pub mod Laws
pub mod Kept
pub mod Ranges
