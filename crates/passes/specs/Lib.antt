pub mod Passing
pub mod Doors
pub mod Examples
pub mod Ties
