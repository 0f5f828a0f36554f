-- what a caller sees of a decoder, how many bytes a picture has, and which colour transform a
-- stream asks for
pub mod PlanesView
pub mod Seen
pub mod Bytes
pub mod StreamTransforms
pub mod LinesView
pub mod Decodes
pub mod Shows
pub mod Fed
-- what a call has read that was refused for lack of room
pub mod HeaderAlone
-- what a caller sees of the blocks that are kept, and the code's own words
pub mod Scanning
-- the code's own words: the clauses of `Decoder`, `run` and `report` reach none of these
pub mod Begun
pub mod Spared
pub mod Writes
pub mod Walk
pub mod Strips
pub mod Through
pub mod GrowingView
pub mod Steps
pub mod LosslessParts
pub mod Reaching
pub mod Walks
-- pictures whose lines are given as their first scan is read
pub mod ByRows
pub mod Givers
pub mod FirstLines
pub mod DecodesRows
pub mod RowScans
pub mod RowsView
pub mod Rows
pub mod FedRows
