pub mod Sets
pub mod Facts
pub mod Among
pub mod Lists
pub mod Limits
pub mod Chain
