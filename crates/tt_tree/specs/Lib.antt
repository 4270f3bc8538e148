pub mod Context
pub mod Tables
pub mod Read
pub mod Whole
