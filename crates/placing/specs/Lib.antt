pub mod Drafts
pub mod Ties
