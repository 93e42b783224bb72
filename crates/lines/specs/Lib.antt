pub mod Numerals
pub mod Room
pub mod Lines
pub mod Examples
