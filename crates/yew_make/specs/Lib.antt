pub mod Draws
pub mod Knapsacks
pub mod Pairs
pub mod Tours
pub mod Graphs
pub mod Texts
pub mod Laws
