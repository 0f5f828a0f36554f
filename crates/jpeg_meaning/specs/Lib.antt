-- the meaning
pub mod Order
pub mod Scans
pub mod Rasters
pub mod LosslessScans
pub mod ColourChoice
pub mod Found
pub mod Segments
pub mod ScanSegments
pub mod FoundPictures
pub mod FoundPlanes
pub mod WholeRows
pub mod Brought
pub mod Work
pub mod Stream
pub mod Reported
pub mod States
pub mod Pixels
pub mod Profile
pub mod Output
-- what a stream with a fault shows
pub mod Shown
-- a limit of blocks
pub mod Limits
-- what more bytes add to what a stream has brought
pub mod LongerStreams
-- what a writer emits, and its picture
pub mod Levels
pub mod WrittenData
pub mod WrittenScans
pub mod AcceptedFrames
pub mod SaidSegments
pub mod WrittenStreams
pub mod WrittenImages
pub mod ArrayPictures
pub mod WholeImages
pub mod DecodedImages
pub mod PrintedImages
pub mod WrittenLossless
pub mod WrittenPlanes
pub mod PlainSamples
pub mod FrameSamples
pub mod DecodedSamples
-- what laws on written streams say beside that
pub mod WrittenParts
pub mod Scripts
pub mod LosslessScripts
-- what a decoder's state is sure to be
pub mod Sound
-- streams worked by hand
pub mod Worked
pub mod WorkedImages
pub mod WorkedSamples
-- the code's own words: laws on lossless streams reach `IsIn` of these
pub mod InTurn
-- the code's own words: the clauses of `Decoder`, `run` and `report` reach none of these
pub mod McuRows
pub mod EndPlanes
