mod ReadBackLemmas
pub mod Laws
