pub mod Runs
pub mod Nodes
pub mod Leaves
pub mod Branches
pub mod Tables
pub mod Founds
pub mod Readers
