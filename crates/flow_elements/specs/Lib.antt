pub mod Elements
pub mod Values
pub mod Lending
