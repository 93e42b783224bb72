pub mod BreakLaws
pub mod PriceLaws
pub mod PriceCalls
