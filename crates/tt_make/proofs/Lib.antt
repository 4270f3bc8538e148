pub mod Problem
pub mod Texts
pub mod Pieces
