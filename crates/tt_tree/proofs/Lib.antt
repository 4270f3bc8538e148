pub mod Places
pub mod Pushed
pub mod Whole
pub mod Unknown
