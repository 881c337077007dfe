mod Stepping
mod Sending
mod Fates
mod Reading
mod Replays
pub mod Readers
pub mod Consequences
mod Checking
mod Draining
pub mod Reporting
mod Later
mod Lengths
mod Agreeing
pub mod Refuted
