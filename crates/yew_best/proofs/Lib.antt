pub mod Closing
pub mod Growth
pub mod Heard
pub mod Seating
pub mod Stepping
pub mod Ties
