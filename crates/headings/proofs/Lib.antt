pub mod HeaderLaws
pub mod DomainLaws
