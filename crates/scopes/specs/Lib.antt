pub mod Scopes
pub mod Ties
