-- Each image and each script has a stream.
pub mod EncodedParts
pub mod EncodedImages
pub mod EncodedSamples
pub mod EncodedData
pub mod InterleavedRows
pub mod EncodedScripts
pub mod EncodedLossless
