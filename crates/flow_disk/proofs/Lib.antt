pub mod Calls
pub mod Images
pub mod Moments
pub mod Results
pub mod WindowLaws
