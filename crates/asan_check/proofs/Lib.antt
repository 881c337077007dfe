pub mod Examples
pub mod Refuted
pub mod Steps
pub mod Members
pub mod Blocks
pub mod Frees
pub mod Mallocs
pub mod Classes
pub mod Faults
pub mod Order
mod Quiet
mod Digits
mod Pieces
