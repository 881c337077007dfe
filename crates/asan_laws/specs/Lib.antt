pub mod Laws
pub mod Thinning
pub mod Snapshots
pub mod Recording
pub mod Runs
pub mod LeanRecording
pub mod Classes
pub mod Traces
