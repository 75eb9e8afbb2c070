pub mod Wholes
pub mod Moves
