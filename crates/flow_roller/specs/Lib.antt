pub mod Asked
pub mod Rolling
