pub mod Runs
pub mod Slices
pub mod Fills
pub mod Branches
