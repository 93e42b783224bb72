pub mod NotingLaws
pub mod BoundLaws
