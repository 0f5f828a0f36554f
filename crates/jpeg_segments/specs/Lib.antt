-- the meaning
pub mod Checks
pub mod Quantization
pub mod HuffmanTables
pub mod Frame
pub mod ScanHeader
pub mod Application
pub mod Scales
-- what a writer emits
pub mod WrittenSegments
pub mod ScanHeaders
-- the types of the code as these definitions see them
pub mod FrameView
-- the code's own words: the clauses of `Decoder`, `run` and `report` reach none of these
pub mod Parts
