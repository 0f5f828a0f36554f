-- Lossless scans and the pictures of their samples.
pub mod LosslessReads
pub mod SampleScans
pub mod WholeSampleScans
pub mod WrittenSamples
pub mod WrittenLosslessStreams
pub mod LosslessPixels
pub mod LosslessPlanes
pub mod PlainPixels
pub mod SamplesMeant
pub mod DecodedSamples
