pub mod MapLaws
pub mod SizeLaws
