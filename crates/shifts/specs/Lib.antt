pub mod Nodes
pub mod Moves
pub mod Doors
pub mod Kept
pub mod Ties
