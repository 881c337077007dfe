mod Examples
mod Members
mod Blocks
mod Frames
mod Histories
mod Bytes
mod Accesses
mod Poisons
mod Order
pub mod Marks
pub mod Thinned
pub mod Alike
mod Snapshots
pub mod Finding
mod Said
pub mod SameBlocks
pub mod Reported
mod Numbers
mod Beginning
mod Faults
pub mod RunBlocks
mod RunBytes
mod Quarantine
mod HeldBlocks
mod LeanReported
mod LeanNumbers
mod LeanFaults
mod Book
pub mod Shown
mod RunShown
mod StatedBlocks
mod Known
mod NewSegment
mod Reasons
pub mod Anew
