pub mod Shelf
pub mod Views
pub mod Changes
pub mod State
pub mod Chain
pub mod Standing
pub mod Jobs
pub mod Shelved
