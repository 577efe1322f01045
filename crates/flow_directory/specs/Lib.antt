pub mod Calls
pub mod File
