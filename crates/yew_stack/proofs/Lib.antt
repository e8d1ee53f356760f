pub mod Along
pub mod Coming
pub mod Moving
pub mod Places
