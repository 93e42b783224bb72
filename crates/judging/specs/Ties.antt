pub mod Stretches
pub mod Starts
