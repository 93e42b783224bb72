pub mod TreeLaws
pub mod KeptRules
pub mod StepLaws
pub mod ReadSteps
pub mod WordLaws
