pub mod Agreeing
pub mod Ended
pub mod Known
pub mod Marking
pub mod Numbers
pub mod Table
