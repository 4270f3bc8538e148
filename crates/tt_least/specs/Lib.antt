pub mod Limits
pub mod Choices
pub mod Judged
pub mod Nodes
pub mod Prices
pub mod Results
pub mod Dominates
pub mod Searches
