pub mod Honesty
pub mod Naming
