pub mod FourLemmas
