pub mod EndsLoop
pub mod Following
pub mod Alone
pub mod Taking
