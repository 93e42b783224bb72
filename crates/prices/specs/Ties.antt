pub mod Sums
pub mod Answers
