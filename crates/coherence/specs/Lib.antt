pub mod Types
pub mod Histories
pub mod Demand3
pub mod Losses
pub mod Backups
pub mod Events
