pub mod Standing
pub mod Stepping
