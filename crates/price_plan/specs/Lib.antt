pub mod PriceLine
pub mod Examples
