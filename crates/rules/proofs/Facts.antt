-- Facts that the proofs of functions cite.
pub mod Loops
