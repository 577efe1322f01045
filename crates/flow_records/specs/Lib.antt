pub mod Refused
pub mod Records
pub mod Holding
pub mod Listing
