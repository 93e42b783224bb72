pub mod SoftLaws
pub mod GapLaws
