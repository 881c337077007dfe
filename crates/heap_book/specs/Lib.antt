pub mod Spans
pub mod Blocks
pub mod Admit
pub mod Freed
pub mod Slots
