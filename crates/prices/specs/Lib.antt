pub mod Plans
pub mod Breaks
pub mod Prices
pub mod Examples
pub mod Ties
