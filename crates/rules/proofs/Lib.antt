pub mod Laws
pub mod Keeps
pub mod Facts
pub mod Thirteen
