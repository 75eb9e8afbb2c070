pub mod Types
pub mod Changes
