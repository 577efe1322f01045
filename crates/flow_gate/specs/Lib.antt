pub mod Gate
pub mod Laws
pub mod Scan
pub mod Steps
