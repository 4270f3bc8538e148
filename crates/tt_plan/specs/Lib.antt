pub mod Domain
pub mod Named
pub mod Placements
