-- What is read from bits was written.
pub mod TakenBits
pub mod TakenValues
pub mod TakenBytes
pub mod TakenTokens
pub mod TakenBands
pub mod TakenLevels
pub mod TakenBlocks
pub mod TakenTurns
pub mod TakenRefinements
pub mod TakenScans
pub mod ReadScans
pub mod StuffedTexts
