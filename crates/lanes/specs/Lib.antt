pub mod Files
pub mod Program
pub mod Refusals
pub mod Parts
pub mod Steps
pub mod Arrivals
