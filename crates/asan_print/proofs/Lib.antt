pub mod Prints
mod Logging
mod Rounds
pub mod Refuted
