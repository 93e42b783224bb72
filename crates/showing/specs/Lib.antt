pub mod Showing
pub mod Examples
