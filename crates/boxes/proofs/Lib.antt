pub mod LoopLaws
pub mod PlaceLaws
pub mod BoxLaws
