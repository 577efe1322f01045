pub mod Limits
pub mod Manifest
pub mod Fault
pub mod Slots
pub mod Opening
pub mod Following
pub mod Printed
