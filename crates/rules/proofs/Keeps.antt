-- A step keeps a state well formed. Assumes nothing.
pub mod Cells
pub mod Messages
pub mod Well
pub mod Accepted
pub mod Changes
pub mod Sends
pub mod Arrivals
pub mod Renewals
pub mod Numbers
pub mod Shapes
pub mod Deeds
pub mod Steps
pub mod Starts
