pub mod Kept
pub mod Reading
pub mod Spans
pub mod Opening
pub mod Laws
