mod NumeralLaws
pub mod LineLaws
