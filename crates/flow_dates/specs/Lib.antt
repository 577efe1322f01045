pub mod Dates
