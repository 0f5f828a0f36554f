-- the meaning
pub mod Stream
pub mod Reading
pub mod Marker
pub mod Entropy
pub mod Readers
pub mod Codes
pub mod DefaultTables
pub mod Bands
pub mod Refinement
pub mod Passes
pub mod Zigzag
pub mod GoesOn
pub mod Intervals
-- what a writer emits
pub mod Written
-- what the laws say
pub mod NextMarker
-- what a caller sees of a block
pub mod BlockView
-- the code's own words: the clauses of `Decoder`, `run` and `report` reach none of these
pub mod Turns
pub mod Refusals
pub mod BytesAhead
pub mod Reservoir
pub mod ShortCodes
pub mod Skips
pub mod ShortDifferences
pub mod Pairs
pub mod Lookups
pub mod Pieces
pub mod Masks
pub mod ZigzagParts
pub mod BlockLines
