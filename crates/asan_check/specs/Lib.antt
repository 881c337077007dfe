pub mod Codes
pub mod History
pub mod Verdicts
pub mod Traces
pub mod Lines
pub mod Appending
pub mod Standing
pub mod Freeing
