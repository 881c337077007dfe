pub mod Back
pub mod Only
pub mod Senders
pub mod Dealing
pub mod ReportLanes
pub mod LastLines
pub mod Going
mod Arriving
mod Counting
pub mod Collected
pub mod Causes
pub mod Rights
mod Prints
mod Answering
pub mod Refuted
