pub mod Lists
pub mod Batches
pub mod Starts
pub mod Sizes
