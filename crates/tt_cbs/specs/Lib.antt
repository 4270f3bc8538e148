pub mod KeyOrder
pub mod Counts
pub mod Listed
pub mod Kept
