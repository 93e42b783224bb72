pub mod Spelling
pub mod Ties
