pub mod Wholes
pub mod Feeding
pub mod Fronts
pub mod Copies
