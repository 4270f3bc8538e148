pub mod AmongLemmas
pub mod FactLemmas
pub mod ListLemmas
pub mod Ranges
pub mod ReadLemmas
pub mod ResultLemmas
pub mod SetLemmas
