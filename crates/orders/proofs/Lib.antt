pub mod Once
pub mod Saying
pub mod Splitting
pub mod Whole
