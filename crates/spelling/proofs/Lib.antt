pub mod SpellingLaws
pub mod StandingLaws
pub mod SteppingLaws
