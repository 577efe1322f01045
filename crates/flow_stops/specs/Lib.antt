pub mod Stops
pub mod Laws
