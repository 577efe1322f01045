pub mod Export
pub mod Span
pub mod Asked
pub mod ByTime
