-- Blocks that are kept between the scans of a progressive frame.
pub mod BlockArrays
pub mod ClearedBlocks
pub mod KeptBlocks
pub mod LinesOfBlocks
pub mod PartTurns
pub mod KeptSpots
pub mod TakenBlocks
pub mod KeptScans
pub mod ReachedSpots
