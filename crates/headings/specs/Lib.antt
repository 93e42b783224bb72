pub mod Headers
pub mod Domains
pub mod Ties
