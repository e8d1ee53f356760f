pub mod KeyOrders
pub mod ReorderedTrees
pub mod SameTrees
