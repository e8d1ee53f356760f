pub mod Splitting
pub mod FieldLines
pub mod Skipping
pub mod Finding
pub mod Digits
pub mod Readings
pub mod Steps
