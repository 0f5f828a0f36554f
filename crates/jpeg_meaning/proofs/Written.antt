-- What a writer emits is read.
pub mod WriterLemmas
pub mod WrittenBands
pub mod WrittenRefinements
pub mod SentBlocks
pub mod CutLevels
pub mod WrittenBlocks
pub mod WrittenFrameScans
pub mod ReadTurns
pub mod CodingsInForce
pub mod BroughtLevels
pub mod WalkedStreams
pub mod WrittenPictures
pub mod WrittenPlanes
pub mod SizedStreams
pub mod WrittenParts
pub mod SaidTables
pub mod ScriptLevels
