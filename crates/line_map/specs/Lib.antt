pub mod Tags
pub mod Nodes
pub mod Leaves
pub mod Branches
pub mod Trees
pub mod Maps
pub mod Entries
