pub mod Complete
pub mod Reasons
pub mod Worse
pub mod Runs
