pub mod Chains
pub mod Pools
pub mod Places
