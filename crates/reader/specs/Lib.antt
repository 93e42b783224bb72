pub mod ReaderLimits
pub mod Reading
pub mod Said
pub mod ReadRight
pub mod Examples
pub mod Ties
