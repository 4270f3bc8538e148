pub mod ViolatedPairs
pub mod Listed
pub mod PairShapes
pub mod PairLaws
pub mod Groups
