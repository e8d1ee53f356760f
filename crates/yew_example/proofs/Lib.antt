pub mod ColouringTree
pub mod NextChildren
