-- Facts that the proofs of functions cite.
pub mod Fresh
pub mod Tables
pub mod Checked
