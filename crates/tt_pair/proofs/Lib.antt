pub mod KeptLemmas
pub mod ShapeLemmas
