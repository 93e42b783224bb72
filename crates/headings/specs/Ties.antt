pub mod Outcomes
pub mod Ranges
