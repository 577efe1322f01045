pub mod Fronts
pub mod Adding
pub mod Folds
pub mod Events
pub mod Stepping
pub mod Turned
pub mod Kept
pub mod Tells
pub mod Meaning
pub mod Behind
mod Known
pub mod Called
