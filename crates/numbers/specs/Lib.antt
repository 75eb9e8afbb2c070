pub mod Types
pub mod Places
pub mod Rows
pub mod Tags
