pub mod Engines
pub mod Nodes
pub mod Rightness
pub mod Results
pub mod Ties
