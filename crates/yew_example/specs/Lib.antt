pub mod Graphs
pub mod NodeLaws
pub mod Nodes
pub mod Skeletons
