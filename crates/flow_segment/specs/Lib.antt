pub mod Carry
pub mod Steps
pub mod Part
pub mod Segment
pub mod Prefix
pub mod PartFlows
pub mod Batch
pub mod Spans
