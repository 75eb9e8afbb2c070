-- Laws of the tools that the rules are written with, and of the views of a state. Assumes nothing.
pub mod Bools
pub mod Rows
pub mod Sums
pub mod Cells
pub mod Views
pub mod Bears
pub mod Sole
pub mod Changes
pub mod Renewals
