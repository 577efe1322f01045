pub mod Bound
pub mod Kept
pub mod Laws
pub mod Marks
pub mod Memory
pub mod Nodes
pub mod Restored
pub mod Views
