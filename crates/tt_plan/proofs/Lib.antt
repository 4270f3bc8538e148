pub mod DomainLemmas
pub mod DomainLaws
