pub mod Bits
pub mod Choices
pub mod Inherited
pub mod Levels
pub mod Once
pub mod Roots
pub mod Words
