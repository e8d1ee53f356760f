pub mod IncreasingTrees
pub mod Logs
pub mod Trees
pub mod WrongLogs
