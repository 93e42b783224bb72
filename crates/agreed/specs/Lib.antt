pub mod Filed
pub mod Recorded
