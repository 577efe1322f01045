pub mod Datagrams
pub mod Feed
pub mod Given
pub mod Held
pub mod Stopped
pub mod Shared
pub mod Until
pub mod Whole
