-- The order of the blocks of a scan, and the blocks of a frame that it reaches.
pub mod Apart
pub mod CountedScans
pub mod McuRows
pub mod OwnSpots
pub mod FrameShapes
pub mod SpotCounts
