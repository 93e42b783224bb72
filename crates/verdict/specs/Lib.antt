pub mod Verdicts
pub mod RightLines
pub mod Examples
