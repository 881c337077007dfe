pub mod Held
pub mod NeverMeet
pub mod Permutations
pub mod Following
pub mod Entries
pub mod Refuted
