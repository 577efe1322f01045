pub mod Copying
pub mod Going
pub mod Joined
pub mod Tracking
