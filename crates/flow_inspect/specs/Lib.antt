pub mod Lasting
pub mod Counting
pub mod Reports
pub mod Inspect
