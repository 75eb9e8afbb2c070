pub mod Reads
pub mod Sends
