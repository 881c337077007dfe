pub mod Leaves
pub mod Branches
pub mod Entries
pub mod Found
