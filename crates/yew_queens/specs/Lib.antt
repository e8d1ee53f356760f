pub mod Boards
pub mod BoardTree
pub mod BoardLaws
