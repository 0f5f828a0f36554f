pub mod Callers
pub mod ReadLists
mod Rules
pub mod PutLoops
mod OnLiterals
pub mod Interrupted
pub mod Segments
pub mod Orders
pub mod Scans
pub mod Kept
pub mod Strips
pub mod Partial
pub mod Pictures
pub mod LosslessFrames
pub mod ByRows
pub mod FedBytes
pub mod Checkpoints
