pub mod Descents
pub mod Fan
pub mod Levels
pub mod Splits
pub mod ToCome
pub mod Turns
