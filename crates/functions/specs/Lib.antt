pub mod Functions
pub mod Ties
