-- Facts that the proofs of functions cite.
pub mod Numbers
pub mod Places
pub mod Searches
pub mod Turns
pub mod Slots
pub mod Cells
pub mod Sends
pub mod Timeouts
pub mod Running
pub mod Ill
