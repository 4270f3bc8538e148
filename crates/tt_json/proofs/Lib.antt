pub mod BackLemmas
