pub mod PlanLemmas
pub mod MovedLemmas
pub mod ValueLemmas
pub mod ResultLemmas
