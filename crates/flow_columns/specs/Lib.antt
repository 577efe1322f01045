pub mod Columns
pub mod Lines
pub mod Made
pub mod Reading
