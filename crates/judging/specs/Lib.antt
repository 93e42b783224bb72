pub mod Judging
pub mod Outlined
pub mod Ties
