pub mod Front
pub mod Heard
pub mod IpfixFiles
pub mod Lives
pub mod Machine
pub mod Openings
pub mod Printed
