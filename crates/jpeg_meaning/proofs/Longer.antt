-- A longer stream goes on from what a shorter one has brought.
pub mod FrontNumbers
pub mod FrontReaders
pub mod FirstSpots
pub mod LongerBits
pub mod LongerData
pub mod LongerScans
pub mod LongerSegments
pub mod LongerRows
pub mod LongerSamples
pub mod LongerTurns
pub mod LongerBlocks
pub mod LongerSteps
pub mod LaterTexts
pub mod LaterBlocks
pub mod LaterStates
