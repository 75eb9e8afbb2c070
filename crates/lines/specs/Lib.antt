pub mod Program
pub mod Chunks
pub mod Parts
