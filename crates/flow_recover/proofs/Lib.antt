pub mod Recovering
pub mod Accepting
pub mod Behind
pub mod Spanning
pub mod OnlyReading
pub mod Joining
