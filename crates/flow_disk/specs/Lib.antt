pub mod Calls
pub mod Cause
pub mod Disk
pub mod Files
pub mod Laws
pub mod Moments
pub mod Printed
pub mod Window
