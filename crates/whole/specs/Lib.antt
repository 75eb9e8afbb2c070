pub mod Types
pub mod Tallies
