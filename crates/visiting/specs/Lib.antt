pub mod FirstSearch
pub mod Examples
pub mod Ties
