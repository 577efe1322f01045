pub mod Adding
pub mod Exact
mod Opening
mod Placing
mod Reading
pub mod Rows
pub mod Walking
pub mod Written
