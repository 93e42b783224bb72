pub mod Faults
pub mod Checking
pub mod Examples
