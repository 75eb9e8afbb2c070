pub mod Lines
pub mod Reading
pub mod Nines
pub mod Chunks
pub mod Parts
