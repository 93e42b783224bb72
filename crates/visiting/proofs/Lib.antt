pub mod FirstSearchRight
pub mod PrefixNodes
pub mod VisitLaws
