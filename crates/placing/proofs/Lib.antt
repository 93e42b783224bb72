pub mod StretchLaws
pub mod PlacingLaws
