pub mod Inputs
pub mod Verbose
