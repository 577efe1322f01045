pub mod Tracked
pub mod Written
