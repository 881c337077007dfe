pub mod Saying
pub mod Groups
