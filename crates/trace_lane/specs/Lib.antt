pub mod Pieces
pub mod Lanes
