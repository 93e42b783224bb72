pub mod TestLaws
pub mod RangeLaws
pub mod ListLaws
pub mod CostLaws
pub mod GivingLaws
pub mod NetLaws
pub mod RowLaws
pub mod ScopeLaws
