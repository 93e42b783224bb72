pub mod Sizes
pub mod Ties
