pub mod Naming
pub mod Making
pub mod Joined
pub mod Named
pub mod Plain
