pub mod SoftLimits
pub mod Soft
pub mod Permitted
pub mod Examples
pub mod Ties
